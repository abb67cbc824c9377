-- What the contracts cite: which letters a window has to tell apart, the kinds that are carried, the decoder's answer for kinds.
pub mod Kinds
pub mod KindsAnswer
