pub mod Failures
pub mod FailingOnce
pub mod FileMap
pub mod Fused
pub mod Memory
pub mod Path
pub mod Printed
