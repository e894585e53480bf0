pub mod Capped
pub mod Nodes
