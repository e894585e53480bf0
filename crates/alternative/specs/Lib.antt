pub mod Alternatives
pub mod Keeping
