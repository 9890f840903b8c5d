pub mod ByHand
pub mod Lines
pub mod Printing
pub mod Script
pub mod ScriptFault
pub mod Words
