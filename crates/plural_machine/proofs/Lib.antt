pub mod Outs
pub mod CoreLists
pub mod Joined
pub mod Staying
