-- The laws of walks with a number of letters, of lowest letters, and of the first looped pair.
pub mod Reaching
pub mod Lowest
pub mod Parts
pub mod LowestPairs
pub mod ByLengths
pub mod Making
pub mod Writing
pub mod Shortening
pub mod Bounds
pub mod Endless
pub mod Capping
pub mod Costs
pub mod LengthCosts
pub mod Found
