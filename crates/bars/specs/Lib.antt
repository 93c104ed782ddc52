pub mod Sizes
pub mod Bars
pub mod Claimed
pub mod Laws
pub mod Places
