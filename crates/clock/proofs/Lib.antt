pub mod TickLemmas
pub mod ClockLemmas
pub mod IndexLemmas
pub mod SleepSlotLemmas
pub mod KeyListLemmas
pub mod TimerLemmas
