pub mod BestLemmas
pub mod PartLemmas
pub mod PassedLemmas
