pub mod LineText
pub mod LineByLine
pub mod WordByWord
pub mod Calls
