-- Laws of the writer.
pub mod Writing
pub mod Determined
