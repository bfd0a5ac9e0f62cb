pub mod Escaped
pub mod Sent
