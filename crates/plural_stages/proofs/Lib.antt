pub mod Lives
pub mod Going
pub mod Turns
pub mod Starts
pub mod Endings
