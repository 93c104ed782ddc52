pub mod Longest
pub mod Told
pub mod Layouts
pub mod Trips
pub mod Exacts
