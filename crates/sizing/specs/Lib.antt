pub mod InGrammar
pub mod Checks
pub mod Writes
