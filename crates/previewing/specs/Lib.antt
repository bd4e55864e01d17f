pub mod Preview
pub mod Compared
pub mod Examples
