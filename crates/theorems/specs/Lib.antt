-- What the theorems over several calls conclude.
pub mod RoundTrip
pub mod Files
pub mod TableLimit
pub mod TableShows
pub mod HowFar
pub mod SearchChecked
pub mod Exists
pub mod SameAnswers
pub mod SpareStates
pub mod Cases
pub mod Starred
pub mod Demands
pub mod Numbers
pub mod SettleCounts
