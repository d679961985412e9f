-- The proof of demand 3 of a script's runs, `script-secrecy` of Secrecy.
pub mod Secrecy
