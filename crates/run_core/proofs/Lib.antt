pub mod Printed
pub mod Spaced
pub mod ReadNumbers
pub mod ReadNames
pub mod Visible
pub mod ReadLines
pub mod Prompted
