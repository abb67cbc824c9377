-- What the contracts of the decoder cite.
pub mod Written
pub mod Count
pub mod Window
pub mod Places
pub mod Table
