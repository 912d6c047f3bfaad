pub mod UsedFields
pub mod Rows
