mod Kept
mod Stores
