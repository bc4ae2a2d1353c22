mod Examples
pub mod Extents
mod Greatest
pub mod PlanLaws
mod Steps
mod Tops
