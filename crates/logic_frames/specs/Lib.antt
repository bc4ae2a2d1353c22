pub mod Numbers
pub mod Reached
pub mod Small
pub mod Frames
pub mod Stands
pub mod Opening
pub mod Scoped
pub mod Built
