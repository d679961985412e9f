-- What the quick test computes on its way. The promises of the crate are in the rules' own terms.
pub mod Counted
