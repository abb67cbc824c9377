-- What the contract of the writer's call from C cites.
pub mod Laid
