-- The laws of the coder run's call from C.
pub mod Hosting
