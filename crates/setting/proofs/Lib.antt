-- Laws that other crates cite.
pub mod Numbers
pub mod Same
pub mod Passing
