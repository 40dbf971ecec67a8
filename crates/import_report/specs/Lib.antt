pub mod Names
pub mod Events
pub mod Scripts
pub mod Ascii
pub mod Comments
pub mod Checks
