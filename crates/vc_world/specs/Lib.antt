pub mod Alone
pub mod Chains
pub mod Devices
pub mod Exchanging
pub mod Fetching
pub mod Laws
pub mod OverFiles
pub mod Pushing
