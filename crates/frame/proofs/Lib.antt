pub mod AtomLaws
pub mod AssertionLaws
pub mod FrameLaws
