pub mod Memory
pub mod Nodes
pub mod Playing
pub mod Values
