pub mod NameWords
pub mod Tables
