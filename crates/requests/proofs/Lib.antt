pub mod Admitted
pub mod Rows
pub mod Thinning
pub mod Leaving
pub mod Messages
pub mod Holding
