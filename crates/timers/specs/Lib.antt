pub mod Timers
pub mod Kept
