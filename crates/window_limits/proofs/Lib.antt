-- The laws of a window's limits.
pub mod Limits
