-- What the contracts of the calls for kinds from C cite.
pub mod Laid
