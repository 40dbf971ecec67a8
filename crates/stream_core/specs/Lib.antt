pub mod Inputs
pub mod Lost
pub mod NextLines
pub mod Steps
