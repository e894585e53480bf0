pub mod Operands
pub mod Step
