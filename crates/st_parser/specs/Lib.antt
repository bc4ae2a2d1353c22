pub mod Units
pub mod Statements
pub mod Declarations
pub mod ReadingStatements
pub mod ReadingUnits
pub mod Outcome
pub use Rattle.st_expressions.specs.Lexemes
pub use Rattle.st_expressions.specs.Phrases
