-- Laws of the text as it is read.
pub mod Spans
pub mod DigitLaws
pub mod HexLaws
