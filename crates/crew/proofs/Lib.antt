pub mod Same
pub mod Rising
pub mod Batches
pub mod Ticking
