pub mod FetchLaws
pub use Rattle.plant_config.proofs.Decided
pub use Rattle.plant_config.proofs.OneAnswer
pub use Rattle.plant_config.proofs.OneRefusal
