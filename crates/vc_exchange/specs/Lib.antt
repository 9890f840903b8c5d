pub mod Deeds
pub mod Learning
pub mod Quarantined
pub mod Receiving
pub mod Taking
pub mod Wanting
