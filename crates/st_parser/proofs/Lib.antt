pub mod ReadStatements
pub mod FoundStatements
pub mod ReadUnits
pub mod FoundUnits
