pub mod States
pub mod Tests
pub mod Facts
pub mod Lots
pub mod Back
pub mod Held
pub mod Valid
