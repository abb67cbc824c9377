-- The laws of the decoder's calls from C.
pub mod Hosting
