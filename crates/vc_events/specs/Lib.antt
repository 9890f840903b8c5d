pub mod Answers
pub mod Calls
pub mod Events
pub mod Posting
pub mod Running
pub mod World
