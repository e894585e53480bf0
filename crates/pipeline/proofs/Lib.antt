pub mod Laws
pub mod Bridge
pub mod Fit
