pub mod Reloads
pub use Rattle.plant_config.specs.Code
pub use Rattle.plant_config.specs.Names
pub use Rattle.plant_config.specs.Orderers
pub use Rattle.plant_config.specs.Plants
pub use Rattle.plant_config.specs.declared.rows.AlarmRow
