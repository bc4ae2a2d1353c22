pub mod Counts
pub mod Marks
pub mod Readers
pub mod Replies
pub mod Stories
pub mod Views
