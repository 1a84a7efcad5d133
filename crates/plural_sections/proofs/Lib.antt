pub mod FirstFaults
pub mod Delegation
pub mod Closings
pub mod Cuts
pub mod PassedErrors
pub mod ReadLines
pub mod Caps
mod FirstNumerals
mod WordTokens
pub mod Headers
pub mod TextRules
pub mod Stages
pub mod Agreement
