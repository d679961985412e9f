-- What the lines of a console's script say. docs/console.md has the lines.
pub mod Words
pub mod Numbers
pub mod Texts
pub mod Settings
pub mod Calls
pub mod Borrows
pub mod Lines
