pub mod Sent
pub mod Responses
pub mod Signs
pub mod Ends
