pub mod Windows
pub mod Delays
pub mod Pairs
pub mod Sizes
