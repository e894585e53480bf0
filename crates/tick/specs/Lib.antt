pub mod Survey
pub mod Stack
pub mod Stepped
