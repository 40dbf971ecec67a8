pub mod Tests
pub mod Lookups
pub mod NameSets
pub mod WantedDots
pub mod FallingRows
pub mod CountLoops
pub mod KeyLoops
