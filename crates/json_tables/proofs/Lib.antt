pub mod Integers
pub mod Raced
pub mod Appended
