pub mod Decoded
pub mod InLists
pub mod Compact
