-- What the contracts of the chains cite.
pub mod Chain
pub mod Rows
pub mod Parts
