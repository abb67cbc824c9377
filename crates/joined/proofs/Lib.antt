-- Laws of the joined machine: its runs, its reachable states, its windows.
pub mod Parts
pub mod Runs
pub mod Reaching
pub mod Windows
pub mod Examples
