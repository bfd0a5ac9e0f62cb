pub mod Ticks
pub mod KeptTicks
pub mod Clock
pub mod Answers
pub mod KeptTimers
pub mod Sleeping
pub mod Waiting
pub mod KeptSleepers
