pub mod Choose
pub mod Rule
pub mod Examples
