pub mod Hints
pub mod LineWords
pub mod Forms
pub mod Choices
pub mod Sessions
pub mod EventForms
pub mod EventHints
