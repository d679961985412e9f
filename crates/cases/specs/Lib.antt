-- The test console's P cases.
pub mod Rows
pub mod Table
