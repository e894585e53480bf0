pub mod Leading
pub mod Delays
pub mod Lowering
