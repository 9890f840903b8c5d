pub mod Exchanging
pub mod Performs
pub mod Remote
pub mod RemoteFailure
pub mod Running
