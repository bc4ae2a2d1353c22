pub mod Ranks
pub mod Firsts
pub mod Numbers
pub mod Moved
mod Steps
mod Choosing
mod Turns
pub mod Apart
pub mod Beginning
pub mod Marks
pub mod Growing
mod Descents
