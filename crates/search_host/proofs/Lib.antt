-- The laws of the search's call from C.
pub mod Hosting
