-- What the rules of scripts are held to, and laws of them.
pub mod Blocks
pub mod Digits
pub mod Guards
pub mod Numbers
pub mod Texts
