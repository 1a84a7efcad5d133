pub use Rattle.plural_bytes.specs.Lines
pub use Rattle.plural_bytes.specs.Spelled as LinesSpelled
pub use Rattle.plural_sections.specs.Faults as LinesFaults
pub use Rattle.plural_map.specs.Value
pub use Rattle.plural_trace.specs.Logs
pub use Rattle.plural_map_text.specs.Rules as MapRules
pub mod Print
pub mod Shape
pub mod Spelled
pub mod Numbers
pub mod Faults
pub mod Verdicts
pub mod Laws
pub mod Kinds
