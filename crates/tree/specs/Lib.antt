pub mod Checks
pub mod Uses
