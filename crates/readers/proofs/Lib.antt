pub mod Laws
pub mod Cycle
pub mod Loop
pub mod Arms
pub mod Root
pub mod Meaning
pub mod FirstField
