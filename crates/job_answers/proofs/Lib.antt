pub mod Views
pub mod Stories
pub mod Tables
pub mod Texts
