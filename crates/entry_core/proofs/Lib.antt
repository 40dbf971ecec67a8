pub mod Ascii
pub mod Bits
pub mod EntryLists
