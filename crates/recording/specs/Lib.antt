pub mod Refusals
pub mod Matchable
