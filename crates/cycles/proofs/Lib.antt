-- The laws of successors, of sets of pairs and of closed walks.
pub mod Filling
pub mod Meaning
pub mod PairSets
pub mod Breadth
pub mod Symmetry
