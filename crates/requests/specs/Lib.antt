pub mod Questions
pub mod Sound
pub mod State
pub mod Wanted
pub mod Decisions
pub mod LettingOut
pub mod Sending
pub mod SoundViews
