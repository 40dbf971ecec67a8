pub mod Plans
pub mod Shades
pub mod Shapes
pub mod Words
pub mod Online
pub mod Rows
pub mod Pictures
pub mod Views
