-- What the contracts of the search for kinds cite.
pub mod Letters
pub mod Tries
pub mod Search
