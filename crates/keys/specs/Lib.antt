pub mod Lengths
pub mod Refusals
pub mod KeyParts
pub mod Parts
pub mod Same
pub mod Octets
pub mod Sames
pub mod Lawful
