-- Laws of blocks as they are read.
pub mod BlockLaws
