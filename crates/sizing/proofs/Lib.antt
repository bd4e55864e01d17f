pub mod InGrammar
pub mod Walk
pub mod Writes
