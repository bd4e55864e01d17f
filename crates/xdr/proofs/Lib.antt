pub mod Sizes
pub mod Rows
pub mod Import
pub mod Whole
pub mod Small
pub mod Stops
pub mod AtArray
