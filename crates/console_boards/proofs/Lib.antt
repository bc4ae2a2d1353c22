pub mod Counting
pub mod Laying
pub mod Prefixes
pub mod Replying
pub mod Sights
pub mod Takes
