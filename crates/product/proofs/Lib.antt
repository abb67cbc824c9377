-- The laws of the depth squares.
pub mod Entries
pub mod Seeking
pub mod Squares
pub mod Rounds
pub mod Beginning
pub mod Depths
