-- Laws of a run.
pub mod OnceLaws
pub mod RunLaws
