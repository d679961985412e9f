-- Laws of paths.
pub mod FirstBytes
pub mod Spans
pub mod Names
pub mod Words
pub mod Parsing
pub mod Packed
pub mod ByWords
pub mod Walks
