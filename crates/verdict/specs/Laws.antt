pub mod States
pub mod Bits
pub mod Sums
pub mod Turns
pub mod Verdict
pub mod Walk
pub mod Zeros
