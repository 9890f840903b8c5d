pub mod Faults
pub mod IndexFile
pub mod Resolving
pub mod State
