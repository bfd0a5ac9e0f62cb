pub mod TotalLemmas
pub mod RuleLemmas
pub mod StepLemmas
pub mod GatherLemmas
pub mod SlotLemmas
pub mod WorkerStateLemmas
pub mod Filled
pub mod Answered
