pub mod Appended
pub mod WellFormed
pub mod Drawn
pub mod Answered
