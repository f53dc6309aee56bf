pub mod Grammar
pub mod Texts
