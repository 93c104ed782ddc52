pub mod Steps
pub mod Free
pub mod Differing
