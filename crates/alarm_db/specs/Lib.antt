pub mod Columns
pub mod Databases
pub mod Forms
pub mod Gathering
pub mod Rows
