pub mod Counting
pub mod Printing
pub mod Lexes
pub mod Laying
pub mod Formatted
