-- What the contracts of the decoder table cite.
pub mod Runs
pub mod Sets
pub mod Table
pub mod Window
