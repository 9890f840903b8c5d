pub mod Failure
pub mod Printed
pub mod Revisions
pub mod Told
pub mod Stores
