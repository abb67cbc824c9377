-- What the contracts of lowest letters cite.
pub mod Walk
