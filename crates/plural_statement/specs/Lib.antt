pub mod Mnemonics
pub mod Operands
pub mod Statement
