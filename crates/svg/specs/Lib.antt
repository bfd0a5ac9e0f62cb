pub mod Escaping
pub mod Content
pub mod Sheets
pub mod Rows
pub mod Arrows
pub mod Legend
pub mod Drawing
pub mod Held
