pub mod PrintLemmas
pub mod StoreLemmas
pub mod ToldLemmas
