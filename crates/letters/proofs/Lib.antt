-- The laws of lowest letters along a table of costs: finding them, and writing them one after the other.
pub mod Choosing
pub mod Edges
pub mod Steps
