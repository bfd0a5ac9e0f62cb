pub mod Markup
pub mod Cuts
pub mod Fronts
pub mod Links
pub mod Lines
pub mod Pages
pub mod Views
pub mod Answers
