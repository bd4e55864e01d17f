pub mod Meaning
pub mod Counted
pub mod Comparing
pub mod RootRule
pub mod Examples
