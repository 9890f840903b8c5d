pub mod Part
pub mod Passed
