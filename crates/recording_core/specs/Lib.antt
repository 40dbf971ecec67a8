pub mod Format
pub mod Decoding
pub mod Versions
pub mod Sessions
pub mod Drafts
pub mod Recordings
pub mod Scanned
