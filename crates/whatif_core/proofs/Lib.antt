pub mod AllChanges
pub mod Counted
pub mod Exact
pub mod Told
