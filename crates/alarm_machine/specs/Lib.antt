pub mod Codes
pub mod Orders
pub mod Transitions
pub mod Kept
pub mod Alarms
pub mod Laws
