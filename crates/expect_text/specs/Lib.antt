pub mod Lines
pub mod Differences
pub mod Patterns
pub mod Pieces
pub mod Beginnings
pub mod Expectations
pub mod Views
pub mod Examples
