pub mod Receipts
pub mod Agree
pub mod Interleaving
pub mod Replies
pub mod Marks
pub mod Races
