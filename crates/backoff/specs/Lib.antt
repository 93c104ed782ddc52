pub mod Octet
pub mod Timer
pub mod Laws
pub mod Words
