pub mod Turns
pub mod NameSets
pub mod Tables
pub mod Standings
pub mod Queries
pub mod Easy
