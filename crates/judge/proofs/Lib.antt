-- Laws that belong to no one function.
pub mod MaskLaws
pub mod ElementLaws
pub mod FailingLaws
pub mod WalkLaws
pub mod JudgedLaws
pub mod Verdicts
pub mod ShownLaws
pub mod OneResultLaws
