pub mod Marks
pub mod Rules
