pub mod ImageWords
pub mod MapLimits
pub mod NoClash
pub mod MapRoundTrip
