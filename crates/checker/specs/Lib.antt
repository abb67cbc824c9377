-- What the contracts of the pair checker cite.
pub mod Check
