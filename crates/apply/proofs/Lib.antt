-- Laws of exit.
pub mod Exits
