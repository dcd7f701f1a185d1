-- Laws that belong to no one function.
pub mod TestLaws
pub mod EverywhereLaws
pub mod AmongLaws
pub mod HoldLaws
pub mod OneResultLaws
