-- The laws of the result buffer's fields, and of a call from C as the library's own call laid out.
pub mod Placing
pub mod Reading
pub mod Hosting
