-- What the contracts of the first looped pair's search cite.
pub mod Reach
pub mod Lowest
pub mod Cost
pub mod Successors
pub mod Found
