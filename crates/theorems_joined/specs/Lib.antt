-- What is said of two coders in a row, and worked examples.
pub mod InRow
pub mod Examples
