-- The theorems.
pub mod Ran
pub mod Runs
pub mod Searched
pub mod InRow
pub mod Examples
pub mod Applied
