pub mod Moments
pub mod Requests
pub mod Tallies
pub mod Timers
pub mod Law
