pub mod Sums
pub mod Tries
pub mod Turns
pub mod CoreTurns
