pub mod Calls
pub mod Bridge
pub mod Meaning
