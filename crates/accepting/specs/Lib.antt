pub mod Accepts
pub mod Rule
pub mod Examples
