pub mod Clean
pub mod PushState
pub mod Blames
pub mod Migrating
pub mod Arrival
pub mod Known
pub mod Learning
