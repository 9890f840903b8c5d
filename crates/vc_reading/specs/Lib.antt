pub mod Again
pub mod AtFault
pub mod Bodies
pub mod HashObject
pub mod Pruned
pub mod Shown
pub mod Tally
