pub mod Bounds
pub mod Leaves
pub mod Stands
pub mod NotVisited
pub mod Walking
pub mod Joining
pub mod AtRoot
