pub mod PathLemmas
pub mod StoreLemmas
pub mod NamesLemmas
pub mod RemovalLemmas
