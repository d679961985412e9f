-- Demand 3, stated.
pub mod Claim
