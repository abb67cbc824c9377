-- What the contracts of the calls from C cite: the fields of the result buffer, and a call from C as the library's own call laid out.
pub mod Layout
pub mod Host
