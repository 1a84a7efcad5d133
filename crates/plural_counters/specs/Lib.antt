pub mod Duties
pub mod Counters
pub mod Steps
pub mod Laws
