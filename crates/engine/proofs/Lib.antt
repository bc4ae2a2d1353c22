mod Lawful
mod InRange
mod Ready
mod Shown
mod Journals
pub mod NamedRows
mod Names
mod OrderRows
mod Commits
mod Fitting
pub use Rattle.engine_system.proofs.FoundReload
pub use Rattle.engine_system.proofs.Images
pub use Rattle.engine_system.proofs.Systems
