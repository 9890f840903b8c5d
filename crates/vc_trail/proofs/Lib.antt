pub mod Steps
pub mod Keeping
pub mod Told
