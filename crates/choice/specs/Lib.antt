pub mod RootText
pub mod ChoiceWords
