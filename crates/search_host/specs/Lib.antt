-- What the contract of the search's call from C cites.
pub mod Laid
