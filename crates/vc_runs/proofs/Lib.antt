mod Names
mod Graphs
mod Stores
mod Steps
mod Worlds
mod Occurs
mod Brought
mod GitFacts
pub mod Existing
pub mod Safety
