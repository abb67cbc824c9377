-- The laws.
pub mod Telling
pub mod KindsAnswers
pub mod KindsComeBack
pub mod CarriedKinds
pub mod Cannot
pub mod Reports
pub mod Examples
