pub mod Checked
pub mod Served
pub mod Explained
pub mod Charted
pub mod Tables
pub mod EachKind
