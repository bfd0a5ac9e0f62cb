pub mod Tries
pub mod Taken
pub mod Parted
pub mod SiteLemmas
