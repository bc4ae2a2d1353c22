pub mod Chains
pub mod Watched
