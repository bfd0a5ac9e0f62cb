pub mod Text
pub mod MemOuts
pub mod WriteOuts
