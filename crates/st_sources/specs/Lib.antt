pub mod Readings
pub mod Sources
pub mod UnitNames
pub use Rattle.st_names.specs.declared.place.UnitPlace
