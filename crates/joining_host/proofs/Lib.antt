-- The laws of the call from C.
pub mod Hosting
