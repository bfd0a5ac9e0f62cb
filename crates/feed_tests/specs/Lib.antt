pub mod Tallies
pub mod Comparing
