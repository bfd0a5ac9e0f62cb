pub mod Moves
pub mod Records
pub mod Groups
pub mod Numbers
pub mod Noted
pub mod QueueService
pub mod QueueNotes
pub mod Deadlock
