-- Laws of the coder file and its tables.
pub mod Refusals
pub mod Refused
pub mod Judging
pub mod FileNumbers
pub mod EntryPlaces
pub mod Alphabet
pub mod Accepted
pub mod BigEndian
pub mod Inverse
pub mod Fill
pub mod Tables
