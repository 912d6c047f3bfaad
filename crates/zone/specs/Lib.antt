pub mod State
pub mod Record
pub mod Held
pub mod Valid
pub mod Parts
pub mod Laws
