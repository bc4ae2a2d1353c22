pub mod Steps
pub mod Chain
pub mod Complete
pub mod Many
pub mod Several
pub mod Sound
