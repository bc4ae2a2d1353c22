pub mod Accesses
pub mod Conflicts
pub mod Levellings
pub mod Plans
pub mod Tables
