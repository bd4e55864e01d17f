pub mod Own
pub mod Narrow
pub mod Exporting
pub mod Exports
pub mod Laws
pub mod Examples
