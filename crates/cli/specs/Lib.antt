pub mod Cuts
pub mod Denied
pub mod Named
pub mod Reads
pub mod Spelled
pub mod Values
pub mod Words
