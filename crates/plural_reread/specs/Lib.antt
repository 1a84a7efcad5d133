pub use Rattle.plural_map.specs.Value
pub use Rattle.plural_map.specs.Limits
pub use Rattle.plural_map_text.specs.Print
pub use Rattle.plural_map_text.specs.Parts
pub use Rattle.plural_map_text.specs.Rules
pub mod Laws
