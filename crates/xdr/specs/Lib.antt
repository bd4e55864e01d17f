pub mod Xdr
pub mod Import
pub mod AtArray
