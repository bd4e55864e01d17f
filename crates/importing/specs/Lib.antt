pub mod Meaning
pub mod Brings
pub mod Calls
pub mod Examples
