-- What the contracts of least costs cite.
pub mod Lowering
pub mod Marked
pub mod Starts
