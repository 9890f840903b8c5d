pub mod Holding
pub mod Own
