pub mod Ordering
pub mod Walks
pub mod Laws
