pub mod AddLemmas
pub mod AddedLemmas
pub mod OpenedLemmas
pub mod StepLemmas
