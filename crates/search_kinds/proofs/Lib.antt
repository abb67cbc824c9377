-- The laws.
pub mod Apart
pub mod Tries
pub mod Reports
pub mod Determined
pub mod Exists
