-- What the contract of the coder run's call from C cites.
pub mod Laid
