pub mod SendFault
pub mod Sending
pub mod SentPush
