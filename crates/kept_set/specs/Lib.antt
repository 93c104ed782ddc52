pub mod Trailer
pub mod Loading
pub mod Storing
pub mod Laws
pub mod Sets
