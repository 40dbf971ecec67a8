pub mod Json
pub mod Seen
pub mod Carried
pub mod Asked
pub mod PageData
pub mod Laws
pub mod Chains
