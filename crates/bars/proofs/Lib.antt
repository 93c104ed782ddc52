pub mod Rows
pub mod Distincts
pub mod Loops
pub mod Changes
pub mod Tables
