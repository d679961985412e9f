-- The proof of demand 3, `secrecy` of Secrecy.
pub mod Agree
pub mod Tables
pub mod Related
pub mod Fit
pub mod Facts
pub mod Kept
pub mod Alike
pub mod Secrecy
