-- The laws of bytes in a lent buffer.
pub mod Placing
