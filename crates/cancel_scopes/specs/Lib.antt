pub mod Sight
pub mod Tree
pub mod Kept
pub mod Lowering
pub mod Children
