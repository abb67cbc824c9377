-- What the contracts of the setting's words cite.
pub mod Words
pub mod Members
