pub mod Keywords
pub mod Pieces
pub mod Nonterminals
pub mod Syntax
pub mod Depth
pub mod Reading
pub mod Ranges
