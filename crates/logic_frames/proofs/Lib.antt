pub mod Cells
mod Namings
mod Places
mod Found
mod Spaces
mod Runs
mod Starts
mod Opening
mod Flags
mod Callings
mod Listed
mod Fitting
mod Joined
mod Scopes
mod Built
mod Tables
mod Least
mod Sizes
mod Programs
mod Typed
mod Shown
mod Initials
pub mod Known
