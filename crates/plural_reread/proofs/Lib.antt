pub mod Steps
pub mod Shapes
pub mod Lookups
pub mod SpelledMaps
pub mod RoundTrip
pub mod ShapeNames
pub mod FaultlessMaps
