-- What records say of the tables, and the digest of the tables.
pub mod Records
pub mod Digest
pub mod Called
pub mod Borrowed
pub mod Taken
