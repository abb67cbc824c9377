-- The laws of the two runs of a looped pair on the tables.
pub mod Following
pub mod PartsJudged
