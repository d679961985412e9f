-- Demand 3 of a script's runs, stated.
pub mod Claim
