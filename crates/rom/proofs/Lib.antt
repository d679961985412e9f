pub mod Columns
pub mod Prompts
