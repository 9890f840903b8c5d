pub mod Git
pub mod Format
