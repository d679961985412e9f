pub mod Permissions
