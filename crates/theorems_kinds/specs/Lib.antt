-- What the theorems over the calls for kinds conclude, and the worked examples.
pub mod Kinds
pub mod Starred
