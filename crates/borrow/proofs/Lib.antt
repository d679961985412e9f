-- Laws of the borrowing read.
pub mod Steps
pub mod Spans
