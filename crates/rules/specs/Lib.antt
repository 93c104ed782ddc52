pub mod Answers
pub mod Requests
pub mod TakingIn
pub mod Reading
pub mod Power
pub mod Calls
