pub mod Entries
pub mod Answer
pub mod ReadBack
