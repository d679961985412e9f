pub mod Columns
pub mod Rest
