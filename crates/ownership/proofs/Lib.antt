-- The proofs, from the bottom up.
pub mod Asked
pub mod Served
pub mod Kept
pub mod Ancestors
pub mod DirectoryEffects
pub mod Directory
pub mod Rows
pub mod Descriptors
