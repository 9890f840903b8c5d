pub mod Entry
pub mod Runs
pub mod Talk
pub mod Served
pub mod Laws
pub mod Parts
pub mod Watching
pub mod Pool
