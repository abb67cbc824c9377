-- What the contracts of the decoder's calls from C cite.
pub mod Laid
