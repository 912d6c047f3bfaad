pub mod SignedSums
pub mod Shares
