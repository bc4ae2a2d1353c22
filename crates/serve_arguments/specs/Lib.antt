pub mod Line
pub mod Choices
pub mod Statuses
