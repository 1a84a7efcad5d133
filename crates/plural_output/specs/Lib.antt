pub use Rattle.plural_bytes.specs.Lines
pub use Rattle.plural_bytes.specs.Spelled
pub use Rattle.plural_sections.specs.Faults
pub use Rattle.plural_sections.specs.Kinds
pub use Rattle.plural_map.specs.Value as MapValue
pub use Rattle.plural_trace.specs.Logs
pub use Rattle.plural_log.specs.Spelled as LogSpelled
pub use Rattle.plural_image.specs.Image
pub mod Text
pub mod Rules
pub mod Value
pub mod Answer
pub mod Parts
