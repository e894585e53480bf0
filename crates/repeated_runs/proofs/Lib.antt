pub mod Copies
pub mod Closing
pub mod Rows
pub mod Repeating
