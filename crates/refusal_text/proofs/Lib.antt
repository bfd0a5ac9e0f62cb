pub mod Messages
pub mod Read
pub mod Counted
