pub mod Steps
pub mod Items
pub mod Rising
pub mod Standing
pub mod RowLaws
pub mod Runs
pub mod Sound
pub mod Places
pub mod Carried
mod Stretches
mod Spelled
pub mod Putting
pub mod Made
pub mod Overs
pub mod Printed
