pub mod Pruning
pub mod Removing
pub mod Roots
