pub mod AnswerLaws
pub mod SessionLaws
pub mod HeldLaws
pub mod ReloadLaws
