-- What the contracts on the two runs of a looped pair cite.
pub mod Follow
