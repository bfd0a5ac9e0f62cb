pub mod Outcomes
pub mod Summaries
pub mod OutcomeLemmas
pub mod FaultsTabled
pub mod SweepsTabled
pub mod Compared
pub mod Gathered
pub mod RacesTabled
