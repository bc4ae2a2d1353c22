pub mod Reloads
pub mod Answers
pub mod Session
pub mod Laws
pub use Rattle.serve_answers.specs.Answers as ServeAnswersAnswers
pub use Rattle.serve_answers.specs.Event
pub use Rattle.serve_answers.specs.Journal
pub use Rattle.serve_answers.specs.Listings
