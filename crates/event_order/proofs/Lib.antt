pub mod Came
pub mod Coming
pub mod Stuck
pub mod SentOnce
pub mod Interleavings
