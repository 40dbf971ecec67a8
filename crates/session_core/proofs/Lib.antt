pub mod Again
pub mod Asked
pub mod ComesBack
pub mod Told
pub mod Recorded
