pub mod Lists
pub mod PlantFiles
pub mod Read
