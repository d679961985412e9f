-- The stages of a call are the rules' call.
pub mod StageLaws
