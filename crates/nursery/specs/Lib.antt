pub mod Reading
pub mod Statuses
pub mod Warned
