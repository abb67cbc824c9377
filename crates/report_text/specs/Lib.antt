-- What the contracts of the report's text cite.
pub mod Report
pub mod Text
