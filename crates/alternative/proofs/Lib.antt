pub mod Keeping
pub mod LastStep
pub mod Laws
