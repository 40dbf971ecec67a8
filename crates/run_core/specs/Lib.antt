pub mod Report
pub mod ReadSteps
pub mod Prompts
