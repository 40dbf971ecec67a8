pub mod Turns
pub mod Orders
pub mod Marks
pub mod Stands
pub mod Laws
