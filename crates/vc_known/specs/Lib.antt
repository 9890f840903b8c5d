pub mod Common
pub mod Known
pub mod Laws
pub mod Layers
pub mod Reach
pub mod Seen
pub mod Walked
