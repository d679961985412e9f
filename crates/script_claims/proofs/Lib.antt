-- The proof of the claims, `claims` of Proved, and what it rests on.
pub mod Lists
pub mod Lines
pub mod Runs
pub mod Own
pub mod Cut
pub mod Given
pub mod Texts
pub mod Printed
pub mod ExactTexts
pub mod Exact
pub mod Caps
pub mod Proved
