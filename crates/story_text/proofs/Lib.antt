pub mod Caught
pub mod Joined
