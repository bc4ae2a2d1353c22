pub mod Paths
pub mod Marks
pub mod Shapes
pub mod Lists
pub mod Keeping
pub mod Both
pub use Rattle.logic_frames.specs.Stands
