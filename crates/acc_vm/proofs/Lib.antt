pub mod Stack
pub mod Turn
pub mod Found
pub mod Table
