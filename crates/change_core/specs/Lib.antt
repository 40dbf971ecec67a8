pub mod Changes
pub mod Questions
pub mod Marked
pub mod Ends
pub mod Walks
pub mod Searches
