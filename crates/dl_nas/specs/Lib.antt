pub mod Elements
pub mod Transport
pub mod Content
pub mod Container
pub mod Message
pub mod Format
pub mod Laws
