pub mod Outcome
pub mod Meaning
pub mod Printed
