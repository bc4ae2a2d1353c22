pub mod Listings
pub mod Answers
pub use Rattle.engine.specs.Engines
pub use Rattle.engine.specs.Event
pub use Rattle.engine.specs.Journal
pub use Rattle.engine.specs.Reloads
pub use Rattle.engine.specs.System
