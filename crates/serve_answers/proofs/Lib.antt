pub mod AnswerLaws
pub mod ListingLaws
pub mod PassingLaws
