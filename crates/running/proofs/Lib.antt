-- Laws of the coder run.
pub mod Running
pub mod Determined
