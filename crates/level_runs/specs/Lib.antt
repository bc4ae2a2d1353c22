pub mod Accesses
pub mod Conflicts
pub mod Levels
pub mod Plans
pub mod Programs
pub mod Runs
pub mod Stores
