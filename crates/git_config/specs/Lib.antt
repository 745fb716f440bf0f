pub mod Grammar
pub mod Values
pub mod Views
