pub mod LeastLemmas
pub mod ListLemmas
pub mod ClashLemmas
