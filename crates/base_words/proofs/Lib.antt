mod Apart
mod Finding
mod Ending
mod Linking
mod Placing
mod Following
mod Examples
pub mod Numbering
