-- The laws of the checker's call from C.
pub mod Hosting
