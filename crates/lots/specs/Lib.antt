pub mod Concerned
pub mod Noted
pub mod Laws
