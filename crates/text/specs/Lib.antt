-- What the contracts of text in a lent buffer cite.
pub mod Ascii
pub mod Decimal
