pub mod Digits
pub mod Lines
pub mod Read
pub mod Made
pub mod Examples
