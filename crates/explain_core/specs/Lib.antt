pub mod Standings
pub mod Tracks
pub mod Tracings
pub mod Makings
pub mod Findings
pub mod Explanations
pub mod Questions
pub mod Laws
