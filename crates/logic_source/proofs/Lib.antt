mod Starts
pub mod Growing
mod Picked
pub mod Apart
mod Made
pub mod Belows
pub mod Paths
pub mod Rows
pub mod Layouts
pub mod Levels
pub mod Agreeing
pub mod Distinct
pub mod Seats
pub mod Knowns
mod Firsts
pub mod KindPaths
pub mod Scopes
mod Holdings
pub mod Ranging
pub mod Beginning
mod Elapsing
pub mod Fitting
pub mod Members
pub mod Carrying
mod CarriedExamples
pub use Rattle.st_typing.proofs.Decided
pub use Rattle.st_typing.proofs.Entries
pub use Rattle.st_typing.proofs.OneFault
pub use Rattle.st_typing.proofs.Settled
