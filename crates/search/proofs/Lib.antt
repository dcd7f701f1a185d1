-- Laws that belong to no one function.
pub mod RenamingLaws
pub mod EntryLaws
pub mod InsertLaws
pub mod GatherLaws
pub mod PlacingLaws
pub mod MemoLaws
pub mod SmallestLaws
pub mod StepLaws
pub mod ModelLaws
pub mod GroupLaws
pub mod FitLaws
pub mod AskedLaws
pub mod SearchedLaws
pub mod RenamedLaws
pub mod OneResultLaws
