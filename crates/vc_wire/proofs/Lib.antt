pub mod FormedLemmas
pub mod WireLaws
