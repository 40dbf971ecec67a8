pub mod Front
pub mod Lists
pub mod SameOwn
pub mod Ordered
pub mod Marks
pub mod Stands
pub mod Places
pub mod AsTheyStand
