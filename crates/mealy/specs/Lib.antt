-- What the contracts cite: machines, runs, reachable states, windows, how far one was possible, the decoder's answer, the index of a
-- window, the product machine, looped pairs, walks.
pub mod Machine
pub mod Word
pub mod Reachable
pub mod Setting
pub mod Window
pub mod Order
pub mod HowFar
pub mod Answer
pub mod Index
pub mod Sum
pub mod Product
pub mod LoopedPair
pub mod First
pub mod Walk
pub mod Image
