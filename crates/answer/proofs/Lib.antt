-- Laws that belong to no one function, in the order in which they rest on each other.
-- The answer as a value, and its tests:
pub mod SizeLaws
pub mod CheckLaws
pub mod AnswerLaws
pub mod GoodLaws
pub mod MayLaws
-- The reader and the writer:
pub mod ReadLaws
pub mod WriterLaws
-- Both round trips:
pub mod ReadBackLaws
pub mod AcceptedFileLaws
pub mod RoundTrips
-- What the contracts leave:
pub mod OneOutcomeLaws
