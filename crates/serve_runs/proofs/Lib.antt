pub mod AdmitLaws
pub mod ServiceLaws
