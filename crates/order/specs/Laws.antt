pub mod Test
pub mod Placing
