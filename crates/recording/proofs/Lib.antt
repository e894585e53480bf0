pub mod Rows
pub mod Judging
pub mod Laws
pub mod RefusalNumbers
