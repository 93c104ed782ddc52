pub mod Sizes
pub mod Waiting
pub mod Makes
pub mod Lined
pub mod Each
pub mod Asked
