pub mod Races
pub mod Explored
pub mod Program
pub mod Whatifs
pub mod Texts
pub mod Imported
pub mod Shown
pub mod Views
