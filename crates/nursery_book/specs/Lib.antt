pub mod Nursery
pub mod Ends
pub mod EndCode
pub mod Book
