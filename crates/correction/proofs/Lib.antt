pub mod MapLaws
pub mod RowLaws
pub mod Frame
