pub mod Effects
pub mod Lives
pub mod NoAccesses
pub mod Footprint
pub mod Guards
pub mod TurnCases
pub mod LifeLaws
