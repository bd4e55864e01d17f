pub mod Laws
pub mod Put
pub mod Calls
pub mod Source
pub mod Steps
pub mod Fitting
