pub mod LetterLemmas
pub mod NewLemmas
pub mod StepLemmas
pub mod EventLemmas
pub mod RunLemmas
pub mod BoundLemmas
