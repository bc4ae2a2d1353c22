pub mod RequestLaws
pub mod LfLaws
pub mod Beginnings
pub mod SizeLaws
pub mod HeldLaws
