pub mod Request
pub mod Moved
