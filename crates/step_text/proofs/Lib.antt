pub mod Laws
pub mod StepParts
pub mod Bridge
pub mod Parts
