pub mod Laws
pub mod ByWords
pub mod Readers
pub mod Noting
pub mod Example
