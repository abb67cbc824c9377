-- The laws.
pub mod KindLists
