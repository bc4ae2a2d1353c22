pub mod Agrees
pub mod Answered
pub mod Beginnings
pub mod Ends
pub mod Openings
pub mod Turning
