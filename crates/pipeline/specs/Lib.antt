pub mod Stores
pub mod Fit
