pub mod Owed
pub mod Figures
