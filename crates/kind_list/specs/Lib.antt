-- What the contracts of the kind list cite.
pub mod KindList
