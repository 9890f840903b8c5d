pub mod ComingLemmas
pub mod ServingLemmas
pub mod StepsLeft
pub mod TurnLemmas
