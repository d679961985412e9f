pub mod Parse
pub mod PathNames
pub mod Walks
