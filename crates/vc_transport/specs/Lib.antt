pub mod Printed
pub mod Progress
pub mod Words
