pub mod Walkers
