pub mod Walking_blocks
pub mod Keywords
pub mod Standing
pub mod Lexed
pub mod Answered
