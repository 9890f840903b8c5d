pub mod Folders
pub mod Paths
