pub mod Limiters
pub mod Channels
pub mod Whats
pub mod Laws
pub mod Held
