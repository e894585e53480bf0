pub mod Shipped
pub mod ShippedForC
pub mod OneOutcome
