-- Laws of the passes, and that what is counted is what the rules count.
pub mod Counts
pub mod Counting
pub mod Folds
