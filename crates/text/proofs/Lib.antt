-- The laws of text in a lent buffer.
pub mod Decimals
pub mod Examples
