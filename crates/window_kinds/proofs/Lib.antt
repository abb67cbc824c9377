-- The laws.
pub mod SetAnswers
pub mod Accepting
pub mod Determined
