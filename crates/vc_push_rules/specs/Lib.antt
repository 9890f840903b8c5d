pub mod Verdict
pub mod Quarantine
pub mod Carrying
pub mod Known
pub mod Session
pub mod Steps
pub mod Turn
