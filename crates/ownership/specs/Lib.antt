-- What is claimed of directories and of descriptors.
pub mod History
pub mod Directory
pub mod Descriptors
