pub mod Fields
pub mod Table
pub mod Decoding
pub mod FlatInstrs
pub mod Encoding
pub mod RegisterNames
pub mod Laws
