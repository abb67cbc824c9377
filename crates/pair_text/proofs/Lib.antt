-- The laws of the lines on a coder without a decoder.
pub mod Spaced
pub mod Lengths
pub mod Same
pub mod Examples
