pub mod Format
pub mod Decoding
pub mod Told
pub mod Fronts
