pub mod Laws
pub mod Rule
pub mod Meaning
pub mod Examples
