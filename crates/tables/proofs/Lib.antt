pub mod SameWords
pub mod Clipped
