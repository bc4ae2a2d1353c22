pub mod Calls
pub mod Timers
pub mod States
pub mod Edges
