-- What a script leaves on the test console.
pub mod Day
