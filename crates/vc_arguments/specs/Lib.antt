pub mod Forms
pub mod KnownLines
pub mod Modes
pub mod Program
pub mod Reading
pub mod Requests
pub mod Views
pub mod Writers
