pub mod ByWords
pub mod Seen
