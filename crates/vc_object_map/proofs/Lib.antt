pub mod FaultLemmas
pub mod KnownLemmas
pub mod NamesLemmas
pub mod OverlayLemmas
pub mod WalkLemmas
