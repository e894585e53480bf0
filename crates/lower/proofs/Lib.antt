pub mod Operands
pub mod AtRoot
pub mod Laws
