pub mod Atoms
pub mod Assertions
pub mod Advanced
pub mod Watched
