pub mod Message
pub mod Lawful
pub mod Format
pub mod Writing
pub mod Reading
pub mod Laws
pub mod Worked
