-- The laws of the decoder's refusals.
pub mod Accepting
