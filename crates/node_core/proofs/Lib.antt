pub mod Changes
pub mod Sends
pub mod Back
