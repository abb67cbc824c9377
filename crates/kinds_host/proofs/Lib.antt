-- The laws.
pub mod Hosting
