pub mod Choice
pub mod Written
