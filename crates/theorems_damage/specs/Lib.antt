-- Damage to a string, letter by letter; what two calls of the string decoder then give; worked examples.
pub mod Change
pub mod Damage
pub mod Examples
