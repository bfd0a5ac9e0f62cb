pub mod Shapes
pub mod Lexing
pub mod Canon
pub mod Comments
