pub mod Shapes
pub mod Misses
pub mod Orders
pub mod Loads
pub mod Stores
pub mod Buffers
pub mod Classes
