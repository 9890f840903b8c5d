pub mod KeptLemmas
pub mod PruneEnds
pub mod PruningLemmas
pub mod ReachedLemmas
pub mod Removals
pub mod RemovingLemmas
pub mod RootLemmas
pub mod UnionLemmas
