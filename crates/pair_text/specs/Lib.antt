-- What the contracts of the lines on a coder without a decoder cite.
pub mod Lines
