pub mod Readings
pub mod Seats
pub mod Tellings
