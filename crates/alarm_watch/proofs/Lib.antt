mod Marked
mod Ranged
pub mod ChainLaws
pub mod WatchLaws
