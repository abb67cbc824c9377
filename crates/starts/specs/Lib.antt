-- What the contracts of the start states cite.
pub mod Steps
