pub mod Lines
pub mod Cuts
pub mod Part
pub mod Giving
pub mod Kernels
pub mod Matches
pub mod Answers
