pub mod Sums
pub mod Walk
pub mod Laws
