pub mod Crews
pub mod Numbered
pub mod Pages
