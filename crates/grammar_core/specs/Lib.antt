pub mod Words
pub mod Casts
pub mod Scripts
pub mod Results
pub mod Grammar
pub mod Presences
pub mod Readings
