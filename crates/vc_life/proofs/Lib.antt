pub mod Calls
pub mod Along
pub mod Tags
pub mod Safety
pub mod Setting
pub mod Reporting
