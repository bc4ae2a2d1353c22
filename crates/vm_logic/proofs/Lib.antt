pub mod Small
pub mod Standing
pub mod Ranges
mod Counted
pub mod Bases
mod Few
mod FewPaths
mod FewStarts
pub mod Little
mod Numbered
mod Placed
mod Spots
mod Found
mod Started
pub mod Walks
mod Coded
mod OwnCodes
mod Weighed
mod Sizes
mod Costs
mod Apart
mod Known
mod Within
mod OwnCells
pub mod Steady
mod Copied
mod Headed
pub use Rattle.logic_source.proofs.Decided
pub use Rattle.logic_source.proofs.OneFault
pub use Rattle.logic_source.proofs.Settled
