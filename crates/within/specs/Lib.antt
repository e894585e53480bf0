pub mod AllPairs
pub mod AllSizes
pub mod Rows
pub mod Walk
pub mod Passes
