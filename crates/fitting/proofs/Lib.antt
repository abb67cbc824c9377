-- The laws of the decoder's core.
pub mod Answers
pub mod Making
pub mod Steps
pub mod Backward
pub mod Present
pub mod Meaning
