pub mod Texts
pub mod Questions
