-- Laws that belong to no one function. Solvers says what a call says whatever the solver did, Sentences which text gets which outcome, OwnLines that a satisfying assignment's own lines are answered;
-- the others lead there or serve the code.
pub mod ModelLaws
pub mod PlacingLaws
pub mod JudgingLaws
pub mod SolvingLaws
pub mod Solvers
pub mod Sentences
pub mod OwnLines
pub mod OneOutcomeLaws
