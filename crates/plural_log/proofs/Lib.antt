pub mod NameNumbers
pub mod TaskTexts
pub mod Reading
pub mod RoundTrip
pub mod Ranges
