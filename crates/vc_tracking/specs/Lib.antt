pub mod Faults
pub mod Learning
pub mod Moving
pub mod Storing
