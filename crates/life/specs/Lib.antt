pub mod Said
pub mod Lives
