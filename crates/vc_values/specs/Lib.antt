pub mod Faults
pub mod Trees
pub mod Values
pub mod Laws
