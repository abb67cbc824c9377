-- The theorems.
pub mod Strings
pub mod Told
pub mod HostKinds
pub mod StarredKinds
