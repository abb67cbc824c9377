-- Laws on the steps from state to state; the start states of a settle count, one letter after the other, and computed.
pub mod Steps
pub mod Closure
pub mod After
pub mod Computed
