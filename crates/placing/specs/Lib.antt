-- What the contracts of bytes in a lent buffer cite.
pub mod Placed
