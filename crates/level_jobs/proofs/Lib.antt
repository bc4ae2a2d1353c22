mod Numbers
pub mod Taken
pub mod Turns
pub mod Telling
pub mod Again
pub mod Planned
pub mod Paths
pub mod Sorting
