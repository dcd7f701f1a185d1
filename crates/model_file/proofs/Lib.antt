-- Laws that belong to no one function, in the order in which they rest on each other.
pub mod ReadLaws
pub mod JudgeLaws
pub mod MeaningLaws
pub mod Verdicts
pub mod RoundTrips
pub mod OwnModels
pub mod Examples
pub mod OneResultLaws
