pub mod Frames
pub mod Walks
pub mod Apart
pub mod Starts
pub mod Standards
pub mod Paths
pub mod Plain
pub mod Walk
