pub mod Money
pub mod Posting
pub mod Laws
