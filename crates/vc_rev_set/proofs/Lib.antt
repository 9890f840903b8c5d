pub mod SelectionLemmas
