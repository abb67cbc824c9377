-- What the contracts of the file reader cite.
pub mod Refusal
pub mod Refused
pub mod Limits
pub mod BigEndian
pub mod Alphabet
pub mod File
pub mod Accepted
pub mod Table
