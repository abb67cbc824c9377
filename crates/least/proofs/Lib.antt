-- The laws of the least window.
pub mod Counting
pub mod Choosing
pub mod Meaning
pub mod Reports
