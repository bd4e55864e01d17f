pub mod Meaning
pub mod Reads
pub mod Root
