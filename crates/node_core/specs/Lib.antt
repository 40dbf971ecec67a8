pub mod Faults
pub mod Inverses
pub mod Invariant
pub mod Laws
pub mod Meters
pub mod Nodes
pub mod Operations
