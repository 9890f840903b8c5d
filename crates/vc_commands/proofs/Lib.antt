mod PerformLemmas
mod RemoteLemmas
mod RunLemmas
mod TellingLemmas
