pub mod Packed
pub mod Steps
