pub mod Table
pub mod Bytes
pub mod Layout
pub mod Fields
pub mod Records
pub mod Books
pub mod RoundTrip
pub mod Places
