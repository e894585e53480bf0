pub mod Cases
pub mod Decimal
pub mod Laws
pub mod ListingLines
pub mod Room
