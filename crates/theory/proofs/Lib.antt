-- Laws over the definitions: first those of arrangements and rows of any kind of test, then those of sets.
-- DemandThree, AnswerLaws, RowListLaws and Cases say what the definitions are for; the others lead there or serve the code of other crates.
pub mod CountLaws
pub mod DigitLaws
pub mod BitLaws
pub mod ListLaws
pub mod ArrangementLaws
pub mod SearchLaws
pub mod LoopLaws
pub mod PointLaws
pub mod RuleLaws
pub mod ModelLaws
pub mod TermLaws
pub mod ReductionLaws
pub mod MaskLaws
pub mod ClassLaws
pub mod FirstModelLaws
pub mod SameRowLaws
pub mod SameArrangementLaws
pub mod AskedLaws
pub mod PlaceLaws
pub mod MeaningLaws
pub mod DemandThree
pub mod RowListLaws
pub mod RenamingLaws
pub mod AnswerLaws
pub mod Cases
