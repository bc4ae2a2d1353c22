mod Examples
pub mod Steps
