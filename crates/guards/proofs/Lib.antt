pub mod Laws
pub mod Room
pub mod Example
