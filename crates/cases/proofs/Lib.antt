-- That the P cases hold of the rules.
pub mod Quick
pub mod Lines
pub mod Cases
