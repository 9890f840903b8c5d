pub mod ObjectLemmas
pub mod StepsLemmas
pub mod AnswerLemmas
pub mod NamesLemmas
pub mod SameAnswer
pub mod ValueLemmas
