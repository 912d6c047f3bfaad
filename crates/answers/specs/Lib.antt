pub mod Buffers
pub mod Laws
