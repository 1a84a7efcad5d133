pub mod TaskLimits
pub mod TaskLines
pub mod MapLimits
pub mod NearMaps
pub mod PlacedNames
pub mod Verdicts
pub mod ReadLines
