pub mod Grammar
pub mod Row
