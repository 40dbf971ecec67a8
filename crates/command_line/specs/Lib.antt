pub mod Help
pub mod Line
