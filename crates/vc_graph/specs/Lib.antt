pub mod GraphFault
pub mod Incomplete
pub mod Walking
pub mod Printed
