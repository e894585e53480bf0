pub mod Surveying
pub mod AppliedWord
pub mod Evaluating
pub mod Refusals
