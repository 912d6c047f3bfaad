pub mod Good
pub mod Swept
pub mod Lots
pub mod Ordered
pub mod Performed
