pub mod Returned
pub mod Numbers
pub mod Valid
pub mod CallTable
pub mod Figures
