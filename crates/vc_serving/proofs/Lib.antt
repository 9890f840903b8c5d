pub mod AnsweringLemmas
pub mod InTurnLemmas
pub mod LifeLemmas
pub mod SafeLemmas
mod ServedLemmas
pub mod TurnLemmas
