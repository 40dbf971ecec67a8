pub mod Split
pub mod Endings
pub mod LineFronts
pub mod Printed
pub mod Texts
pub mod Turns
pub mod SentText
pub mod Shown
