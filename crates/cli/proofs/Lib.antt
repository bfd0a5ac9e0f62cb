mod CutLemmas
mod DenyLemmas
mod Spans
pub mod AllNamed
