pub mod Values
pub mod Laws
pub mod Known
pub mod Events
pub mod Running
pub mod Stories
pub mod Frequent
