-- What the contracts on a window's limits cite.
pub mod Refusal
