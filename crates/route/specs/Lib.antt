pub mod Rewriting
pub mod Refusals
pub mod Demands
pub mod Bench
pub mod Accepted
pub mod CutRecords
pub mod Xdr
pub mod YesOrNo
