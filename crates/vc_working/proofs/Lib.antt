pub mod BegunLemmas
pub mod CheckoutLemmas
pub mod CloneLemmas
pub mod DeviceLemmas
pub mod MendingLemmas
pub mod NamedLemmas
pub mod StatusLemmas
pub mod TreeLemmas
