pub mod Laws
pub mod Starting
