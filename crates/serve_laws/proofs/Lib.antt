pub mod Journals
pub mod Tags
pub mod Telling
pub mod Following
pub mod Listing
pub mod Playing
pub mod Lines
mod Examples
