pub mod Walks
pub mod Outers
pub mod Contents
pub mod Items
pub mod Bodies
pub mod Messages
pub mod Refusals
