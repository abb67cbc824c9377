-- What the contracts of the coder run cite.
pub mod Run
