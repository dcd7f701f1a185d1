-- Laws that belong to no one function.
pub mod DecisionLaws
pub mod AnsweredLaws
pub mod OneOutcomeLaws
