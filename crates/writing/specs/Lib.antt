pub mod Marshall
