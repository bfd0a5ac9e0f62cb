pub mod PartsLemmas
pub mod PartTexts
