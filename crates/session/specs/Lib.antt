pub mod State
pub mod Session
pub mod Timers
pub mod Time
pub mod Transitions
pub mod Laws
pub mod Messages
