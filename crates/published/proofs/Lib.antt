-- Each call is refused as the published list says.
pub mod Rules
pub mod Published
pub mod Alphabet
pub mod Examples
