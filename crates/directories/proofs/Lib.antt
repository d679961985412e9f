pub mod ByWords
pub mod Seventeenth
