-- The laws of the writer's call from C.
pub mod Hosting
