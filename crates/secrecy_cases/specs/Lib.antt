-- The runs by which each supposition of demand 3 is needed.
pub mod Needed
