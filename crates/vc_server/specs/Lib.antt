pub mod Coming
pub mod Refusals
pub mod Replies
pub mod Serving
pub mod Telling
pub mod Turn
