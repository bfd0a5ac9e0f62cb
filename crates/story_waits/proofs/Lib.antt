pub mod TurnLemmas
pub mod GroupLemmas
pub mod ServeLemmas
pub mod NoteLemmas
pub mod DeadlockLemmas
