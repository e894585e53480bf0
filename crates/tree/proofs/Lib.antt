pub mod Lowest
pub mod Uses
pub mod Checks
