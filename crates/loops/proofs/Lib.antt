-- The laws of the tables, the lengths and the letters of the first pair.
pub mod MakingTables
pub mod CostLengths
pub mod Keeping
pub mod ClosedParts
pub mod Marks
pub mod BetweenParts
pub mod Finding
