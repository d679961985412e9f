-- What a script means: how it is written, what is answered, and a run of it.
pub mod Text
pub mod Blocks
pub mod Answers
pub mod Reasons
pub mod Replay
pub mod Computing
