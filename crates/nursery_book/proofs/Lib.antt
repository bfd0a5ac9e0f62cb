pub mod BookLemmas
pub mod EndLemmas
