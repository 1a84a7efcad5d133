pub mod KnownBytes
mod ByteSearches
pub mod Cuts
pub mod FirstWords
pub mod DigitValues
pub mod LineNumbers
pub mod PlainBytes
pub mod Decimals
pub mod Hexadecimals
pub mod PrintedLines
pub mod Tokens
