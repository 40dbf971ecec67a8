pub mod Escapes
pub mod Trees
pub mod Values
pub mod Grammar
