-- What this crate promises beyond the rules' own terms.
pub mod Word
