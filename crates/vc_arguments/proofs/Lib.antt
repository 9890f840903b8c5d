pub mod FormLemmas
pub mod KnownLines
pub mod ProgramLemmas
pub mod RowLemmas
