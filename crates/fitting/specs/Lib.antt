-- What the contracts of the decoder's core cite.
pub mod Answer
pub mod Tables
