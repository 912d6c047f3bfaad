pub mod Past
pub mod Over
pub mod Visits
pub mod Posts
