pub mod ListTests
pub mod Ranges
pub mod NameLemmas
