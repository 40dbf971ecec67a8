pub mod Watches
pub mod Lines
