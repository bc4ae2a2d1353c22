pub mod Chains
pub mod Found
pub mod Names
pub mod Tables
pub mod Texts
