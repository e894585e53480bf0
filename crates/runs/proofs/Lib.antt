pub mod Laws
pub mod Reaching
