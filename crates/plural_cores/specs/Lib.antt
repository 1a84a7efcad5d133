pub mod Later
pub mod Sweeps
pub mod Works
pub mod Cores
