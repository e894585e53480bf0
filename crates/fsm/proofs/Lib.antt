pub mod Laws
pub mod Bridge
