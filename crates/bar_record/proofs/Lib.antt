pub mod Standing
pub mod Rebuilt
pub mod Telling
