pub mod Openings
pub mod Seeking
pub mod Opened
pub mod Warnings
pub mod Adding
pub mod Linted
pub mod Sentences
pub mod Fitting
