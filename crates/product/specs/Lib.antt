-- What the contracts of the depth squares cite.
pub mod Depth
pub mod Conflict
pub mod Entries
pub mod Rounds
