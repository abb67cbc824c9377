-- The laws of the search.
pub mod Verdicts
pub mod Files
pub mod Determined
pub mod Exists
