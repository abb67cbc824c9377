-- The laws of the report's text.
pub mod Lengths
pub mod Reporting
pub mod Bytes
pub mod Determined
pub mod Examples
