-- What the contracts of the size of a decoder table cite.
pub mod Size
pub mod Cases
