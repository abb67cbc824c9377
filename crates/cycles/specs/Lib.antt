-- What the contracts of the product machine's successors and closed walks cite.
pub mod Successors
