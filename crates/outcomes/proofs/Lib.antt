pub mod Noted
pub mod Counted
pub mod Joined
pub mod Widest
pub mod Backwards
pub mod SweepCounted
pub mod SweepWidest
