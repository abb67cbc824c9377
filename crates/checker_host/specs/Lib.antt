-- What the contract of the checker's call from C cites.
pub mod Laid
