pub mod Texts
pub mod Faults
pub mod Asked
pub mod Questions
