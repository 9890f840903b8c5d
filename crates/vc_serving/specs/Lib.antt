pub mod Answering
pub mod OneTurn
pub mod Turns
pub mod Clients
pub mod InTurn
pub mod Safe
pub mod Served
