pub mod Begun
pub mod Checkout
pub mod CloneWords
pub mod Devices
pub mod Naming
pub mod OwnPath
pub mod StatusLines
pub mod Trees
