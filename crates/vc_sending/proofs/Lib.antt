pub mod SendingLaws
pub mod SendingLemmas
