pub mod Layout
pub mod Walk
pub mod Rule
pub mod Size
pub mod Locate
pub mod Meaning
