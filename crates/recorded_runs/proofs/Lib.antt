pub mod Counting
pub mod Fronts
pub mod Often
