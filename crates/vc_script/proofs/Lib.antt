mod ByHandLemmas
mod ListLemmas
mod NameLemmas
pub mod PrintingLemmas
