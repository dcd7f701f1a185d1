-- Laws that belong to no one function.
pub mod WritingLaws
pub mod ReducingLaws
pub mod TableRows
pub mod ReducedRows
pub mod WrittenRows
pub mod OneOutcomeLaws
