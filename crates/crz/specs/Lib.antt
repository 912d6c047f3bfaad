pub mod Fresh
pub mod Returned
pub mod CallTable
pub mod Figures
pub mod Laws
