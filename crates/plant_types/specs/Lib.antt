pub mod Options
pub mod Pairs
pub mod Values
pub mod Words
