pub mod Map
pub mod Rows
pub mod Picture
