-- Laws of the loops of this crate, and that its tests are the rules'.
pub mod Bridge
pub mod Climbs
pub mod Flags
pub mod NewNames
