-- Laws that belong to no one function, in the order in which they rest on each other.
-- The numbers of the variables, and the clauses one by one:
pub mod NumberingLaws
pub mod WalkLaws
pub mod VariableLaws
pub mod DeclaredLaws
-- The text: how long it is, and what it is made of.
pub mod CountLaws
pub mod TextLaws
-- The meaning: the model that truth values say, and that the clauses can be satisfied exactly if the rows have a solution.
pub mod PlacedLaws
pub mod MeaningLaws
pub mod SaidLaws
pub mod SatisfiedLaws
pub mod LocalLaws
pub mod Satisfiable
pub mod RoundTrips
pub mod Examples
-- What the contracts leave:
pub mod OneResultLaws
