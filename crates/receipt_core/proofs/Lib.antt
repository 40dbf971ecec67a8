pub mod Answering
pub mod Named
pub mod Counts
pub mod Interleaving
pub mod Replies
