pub mod Interleaving
pub mod Woken
pub mod Going
pub mod Runs
pub mod Rows
pub mod Acts
pub mod Laws
pub mod Worked
