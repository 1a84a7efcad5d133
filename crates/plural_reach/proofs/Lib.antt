pub mod SetLemmas
pub mod DepLemmas
pub mod Solutions
pub mod TableEntries
pub mod ChainLemmas
pub mod BranchLemmas
pub mod Places
pub mod Ranks
