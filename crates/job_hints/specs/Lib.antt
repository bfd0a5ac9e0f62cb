pub mod Advice
pub mod Words
pub mod Numbers
pub mod ByBytes
pub mod ByGrammar
pub mod Nearness
