-- Laws of the pair checker.
pub mod Checking
pub mod Determined
