pub mod OutputRule
pub mod ReadOutput
pub mod InputParts
