pub mod BreakLemmas
pub mod QuarantineLemmas
pub mod FrameLemmas
pub mod CarryingLemmas
pub mod VerdictLemmas
pub mod TurnLemmas
