pub mod Table
pub mod Layout
pub mod Image
pub mod Laws
