pub mod Own
pub mod Export
pub mod Examples
