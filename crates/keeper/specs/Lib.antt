pub mod Sizes
pub mod Layout
pub mod Records
pub mod Alike
pub mod Listed
