pub mod Fronts
pub mod Growing
pub mod Naming
pub mod Needing
pub mod Passing
pub mod Asking
pub mod Raising
