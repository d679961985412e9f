-- That demand 3 is not empty, Console; and that each of its suppositions is needed, Needed.
pub mod Needed
pub mod Console
