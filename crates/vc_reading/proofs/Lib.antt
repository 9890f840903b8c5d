pub mod BodyLemmas
pub mod GoingLemmas
pub mod PieceLemmas
pub mod PruneLemmas
