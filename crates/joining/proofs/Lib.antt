-- Laws of the joined file and of the call.
pub mod Names
pub mod Entries
pub mod Files
pub mod Joining
pub mod Places
pub mod Coding
pub mod Determined
