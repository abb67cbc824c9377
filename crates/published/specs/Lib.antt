-- The published list of refusals, and what number 15 means.
pub mod Published
pub mod Alphabet
