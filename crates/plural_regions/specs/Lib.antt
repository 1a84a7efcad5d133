pub mod Rights
pub mod Windows
pub mod Bounds
pub mod Residue
pub mod Meeting
pub mod Search
