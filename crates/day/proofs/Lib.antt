-- What the proof of the run shares.
pub mod OnConsole
