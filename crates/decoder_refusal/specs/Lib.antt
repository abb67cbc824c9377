-- What the contracts of the decoder's refusals cite.
pub mod Refusal
