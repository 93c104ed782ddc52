pub mod Table
pub mod Ptis
pub mod Acts
pub mod Live
pub mod Laws
