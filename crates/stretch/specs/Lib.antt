pub mod Assignment
pub mod Start
