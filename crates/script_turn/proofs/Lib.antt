-- Laws of a turn.
pub mod TurnLaws
pub mod BlockTurns
