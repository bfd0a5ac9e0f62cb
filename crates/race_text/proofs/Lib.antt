pub mod Kept
pub mod Indices
pub mod Nothing
pub mod Counted
pub mod Shown
pub mod Joined
