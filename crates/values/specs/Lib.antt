-- Windows, orders and looped pairs of the calls as those of the theory.
pub mod Window
pub mod Order
pub mod Pair
