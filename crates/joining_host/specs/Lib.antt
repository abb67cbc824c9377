-- What the contract of the call from C cites.
pub mod Laid
