pub mod WordFields
pub mod Rows
pub mod InstrRoundTrip
pub mod WordRoundTrip
pub mod DecodedRanges
pub mod FirstInRange
pub mod OneRow
