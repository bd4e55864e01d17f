pub mod Laws
pub mod Cycle
pub mod Root
pub mod Meaning
pub mod Examples
