-- Laws that belong to no one function, in the order in which they rest on each other.
pub mod FileLaws
pub mod NumberLaws
pub mod PlaceLaws
-- What the calls are worth, and what the contracts leave:
pub mod EndToEnd
pub mod Exactness
pub mod ClashEnds
pub mod ClausesEnds
pub mod SolvedEnds
pub mod SolvedExactly
pub mod JudgeEnds
pub mod Program
pub mod OneOutcomeLaws
