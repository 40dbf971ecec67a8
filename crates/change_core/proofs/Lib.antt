pub mod Marks
pub mod Played
pub mod Walks
pub mod Searches
pub mod Changing
