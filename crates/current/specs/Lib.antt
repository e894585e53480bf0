pub mod Text
pub mod Walk
