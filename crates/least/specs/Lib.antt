-- What the contracts of the least window cite.
pub mod Need
pub mod Report
