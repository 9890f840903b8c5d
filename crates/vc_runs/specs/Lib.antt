pub mod Names
pub mod Wire
pub mod Safety
pub mod Witness
