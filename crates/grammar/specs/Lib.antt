pub mod Check
pub mod Rule
pub mod Tree
