pub mod FaultLemmas
pub mod IncompleteLemmas
pub mod ParentsLemmas
pub mod WalkOnLemmas
