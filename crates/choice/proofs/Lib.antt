pub mod Closings
pub mod RootTexts
pub mod Words
pub mod Surveys
pub mod Passes
