-- Laws that belong to no one function: a number written is read back, and the other way round.
pub mod NumberLaws
pub mod OneOutcomeLaws
