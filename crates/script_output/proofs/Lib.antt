-- Laws of answers as they are written.
pub mod DigitLaws
pub mod HexLaws
pub mod Sequences
pub mod AnswerLaws
