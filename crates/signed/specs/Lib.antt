pub mod Signed
pub mod Rule
