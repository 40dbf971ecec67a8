pub mod Differences
pub mod Exact
