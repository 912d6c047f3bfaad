pub mod Ranges
pub mod Payments
pub mod Laws
pub mod Examples
