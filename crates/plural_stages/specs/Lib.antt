pub mod Stacked
pub mod Engines
