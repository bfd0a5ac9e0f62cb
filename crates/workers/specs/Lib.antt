pub mod Rule
pub mod Claims
pub mod Slots
pub mod Bench
pub mod WorkerStates
pub mod Answers
