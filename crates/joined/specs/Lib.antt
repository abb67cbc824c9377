-- What the contracts cite: the machine of two machines in a row.
pub mod Joined
