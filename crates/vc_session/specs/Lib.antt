pub mod Updating
pub mod Together
pub mod Judged
pub mod SessionFault
pub mod Stepping
pub mod Learning
pub mod Needing
