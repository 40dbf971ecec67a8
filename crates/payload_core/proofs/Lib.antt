pub mod Hashed
pub mod SameMessages
pub mod SeenEntries
pub mod TrackedDots
