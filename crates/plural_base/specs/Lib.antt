pub mod Names
pub mod NameFields
pub mod NameBack
pub mod Told
pub mod CacheShape
pub mod Stores
