-- Laws of the decoder table.
pub mod Steps
pub mod Sets
pub mod Runs
pub mod Filling
pub mod Window
