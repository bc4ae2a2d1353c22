pub mod Machine
pub mod Operands
pub mod Codes
pub mod Steps
pub mod Flats
pub mod Names
