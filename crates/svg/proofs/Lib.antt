pub mod Contents
pub mod CharData
pub mod Elements
pub mod Taken
pub mod WellFormed
pub mod Drawn
pub mod Behind
