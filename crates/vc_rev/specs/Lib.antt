pub mod Source
pub mod Question
pub mod Answer
pub mod Meaning
pub mod Asking
pub mod WalkFault
pub mod Value
pub mod Printed
