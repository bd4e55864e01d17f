pub mod Differing
pub mod ComparedLaws
pub mod Previewing
pub mod Meaning
pub mod Examples
