pub mod Answers
pub mod Collected
pub mod Decided
pub mod Spelled
