pub mod AdvertDeeds
pub mod DeedLemmas
mod EmptyLists
pub mod JudgingLemmas
pub mod KeptLemmas
pub mod OnceLemmas
pub mod PackDeeds
pub mod PackLemmas
pub mod QuarantinedLemmas
pub mod ReceivingLemmas
pub mod RefEntries
pub mod WantingHaves
pub mod WantingOpen
