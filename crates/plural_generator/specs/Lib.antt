pub use Rattle.plural_bytes.specs.Lines
pub use Rattle.plural_map.specs.Value
pub use Rattle.plural_map.specs.Limits
pub use Rattle.plural_map_text.specs.Parts
pub use Rattle.plural_map_text.specs.Print as MapPrint
pub use Rattle.plural_crew.specs.Clashes
pub use Rattle.plural_image.specs.Print
pub use Rattle.rand_pcg.specs.Pcg
pub mod Tasks
pub mod Kernels
pub mod Draws
pub mod Places
pub mod Text
pub mod Laws
