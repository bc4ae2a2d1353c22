pub mod Clocks
mod Picked
