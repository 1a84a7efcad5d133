pub use Rattle.plural_bytes.specs.Lines
pub use Rattle.plural_bytes.specs.Spelled
pub use Rattle.plural_sections.specs.Faults
pub use Rattle.plural_map_text.specs.Parts
pub use Rattle.plural_map_text.specs.Rules as MapRules
pub use Rattle.plural_asm.specs.Words
pub use Rattle.plural_asm.specs.Labels
pub use Rattle.plural_image.specs.Image
pub use Rattle.plural_serial.specs.Program
pub mod Sections
pub mod FirstLine
pub mod Rules
pub mod Value
pub mod Answer
pub mod Laws
