-- What the contracts of the decoder of kinds cite.
pub mod Answer
pub mod Window
