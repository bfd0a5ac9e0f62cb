pub mod Sentences
pub mod Expecting
pub mod Scanning
pub mod Hinting
pub mod Scopes
pub mod Positions
pub mod Explaining
