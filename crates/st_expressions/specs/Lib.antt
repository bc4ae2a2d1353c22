pub mod Lexemes
pub mod Phrases
pub mod Grammar
pub mod Reading
pub mod Outcome
