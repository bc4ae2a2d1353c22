pub mod Fetches
pub mod Verdicts
pub use Rattle.plant_config.specs.Files
pub use Rattle.plant_config.specs.Plants
pub use Rattle.plant_config.specs.Refusals
pub use Rattle.plant_config.specs.declared.fault.ConfigFault
