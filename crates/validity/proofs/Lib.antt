pub mod ByState
pub mod Money
