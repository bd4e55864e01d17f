pub mod SameRoute
pub mod Examples
