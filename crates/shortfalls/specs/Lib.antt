pub mod Shortfalls
pub mod Walk
pub mod Laws
