pub mod Ranks
pub mod Placed
