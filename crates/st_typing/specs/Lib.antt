pub mod Kinds
pub mod Constants
pub mod Blocks
pub mod Faults
pub use Rattle.st_names.specs.Asked
pub use Rattle.st_names.specs.BlockTypes
pub use Rattle.st_names.specs.DeclaredNames
pub use Rattle.st_names.specs.Faults as StNamesFaults
pub use Rattle.st_names.specs.First
pub use Rattle.st_names.specs.Known
pub use Rattle.st_names.specs.Scanned
pub use Rattle.st_names.specs.Scopes
pub use Rattle.st_names.specs.SectionKind
pub use Rattle.st_names.specs.Shared
pub use Rattle.st_names.specs.Sort
pub use Rattle.st_names.specs.Taken
pub use Rattle.st_names.specs.Units
pub use Rattle.st_names.specs.declared.place.UnitPlace
