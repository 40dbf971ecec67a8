pub mod Fronts
pub mod Printed
pub mod Raced
pub mod ImportEnds
pub mod ShownEnds
pub mod Told
