pub mod Heads
pub mod Spaced
pub mod Commented
pub mod Layout
pub mod Columns
pub mod Faults
