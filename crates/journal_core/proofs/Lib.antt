mod RowLaws
pub mod KeptLaws
mod Examples
