pub mod Laws
pub mod Rule
