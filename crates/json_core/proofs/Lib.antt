pub mod Reading
pub mod WholeNumbers
pub mod Fronts
pub mod ReadBack
pub mod Listed
