pub mod Hex
pub mod Sorting
pub mod Feed
pub mod Places
