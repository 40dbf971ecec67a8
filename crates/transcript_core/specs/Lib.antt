pub mod Actors
pub mod Scripts
pub mod Steps
pub mod Refusals
pub mod Laws
pub mod Runs
pub mod Senders
