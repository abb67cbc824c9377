-- The theorems.
pub mod Changes
pub mod Bytes
pub mod NotRefused
pub mod Travel
pub mod ComeBack
pub mod Examples
pub mod Applied
