pub mod Git
pub mod Verdicts
pub mod OpenPushes
pub mod Turns
pub mod Told
pub mod Stops
