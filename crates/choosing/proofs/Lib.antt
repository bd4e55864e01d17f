pub mod Meaning
pub mod Laws
pub mod Rule
pub mod Examples
