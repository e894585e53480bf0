pub mod GuardText
