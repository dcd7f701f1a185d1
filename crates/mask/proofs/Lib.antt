-- Laws that belong to no one function: the search with reasons for numbers to any base, then masks and rows.
-- LeastLaws says what the smallest mask is, for whoever uses it.
pub mod RaisedLaws
pub mod ReasonLaws
pub mod BitLaws
pub mod RowLaws
pub mod EntryLaws
pub mod LowestLaws
pub mod BlameLaws
pub mod TrialLaws
pub mod LeastLaws
pub mod WalkLaws
pub mod NoteLaws
pub mod OneResultLaws
