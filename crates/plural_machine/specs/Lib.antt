pub mod Knowing
pub mod Together
pub mod Machines
pub mod Drawn
