pub mod Ends
pub mod Seated
pub mod Shifts
