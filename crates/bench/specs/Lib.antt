pub mod Answer
pub mod Verbs
