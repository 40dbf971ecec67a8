pub mod Both
pub mod Beside
pub mod Documents
pub mod Plain
