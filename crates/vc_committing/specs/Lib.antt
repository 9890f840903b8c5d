pub mod Adding
pub mod Steps
pub mod Told
