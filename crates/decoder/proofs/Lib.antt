-- Laws of the decoder's calls.
pub mod Asking
pub mod Writing
pub mod Decoding
pub mod Determined
pub mod ComeBack
