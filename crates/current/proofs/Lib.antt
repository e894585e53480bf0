pub mod Walk
pub mod Bridge
