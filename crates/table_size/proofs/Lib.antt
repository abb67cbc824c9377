-- The laws of the size of a decoder table.
pub mod Cases
pub mod Exact
