-- The laws of chains.
pub mod Chains
pub mod Entries
pub mod Building
pub mod Rows
pub mod Places
