pub use Rattle.plural_statement.specs.Statement
pub mod Labels
pub mod Words
pub mod Rules
pub mod WordText
pub mod Laws
pub mod Kinds
