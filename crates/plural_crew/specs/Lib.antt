pub use Rattle.plural_regions.specs.Rights
pub use Rattle.plural_regions.specs.Meeting
pub use Rattle.plural_map.specs.Value
pub use Rattle.plural_reach.specs.Chains
pub use Rattle.plural_reach.specs.Branches
pub use Rattle.plural_reach.specs.Tables
pub mod Clashes
pub mod Search
