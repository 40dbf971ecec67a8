pub mod Lists
pub mod Numbers
pub mod Steps
pub mod Events
pub mod Shape
pub mod Again
pub mod Fronts
