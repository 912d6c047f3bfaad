pub mod Changed
pub mod Moved
pub mod Nothing
