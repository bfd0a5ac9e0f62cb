pub mod PartsLemmas
pub mod Same
pub mod PieceLemmas
pub mod Possible
