-- What the contracts of the looped pair's finder cite.
pub mod Pair
pub mod Parts
