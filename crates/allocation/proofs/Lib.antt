-- Laws of the word of used descriptors, and of the scans for a free record.
pub mod Bits
pub mod Descriptors
pub mod Parts
