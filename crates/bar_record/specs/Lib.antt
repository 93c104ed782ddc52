pub mod Record
pub mod Views
pub mod Answers
pub mod Reading
pub mod Lawful
