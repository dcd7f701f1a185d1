-- Laws that belong to no one function. PartLaws says what a clashing part is; the others lead there or serve the code.
pub mod MeaningLaws
pub mod DecidedLaws
pub mod KeptLaws
pub mod WalkLaws
pub mod TurnLaws
pub mod StartLaws
pub mod PartLaws
pub mod FoundLaws
pub mod ThreeLaws
pub mod ReadLaws
pub mod CaseLaws
pub mod OneOutcomeLaws
