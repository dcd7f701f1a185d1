-- Laws that belong to no one function, in the order in which they rest on each other.
-- The tables, and one field:
pub mod BodyLaws
pub mod SaidLaws
pub mod StepLaws
-- The reader and the writer:
pub mod ReadLaws
pub mod KeptLaws
pub mod StatementBytesLaws
pub mod WriterLaws
-- Both round trips:
pub mod ReadBackLaws
pub mod AcceptedFileLaws
pub mod RoundTrips
pub mod RefusalLaws
pub mod FirstBytes
-- What the contracts leave, and the edges that document 01 names:
pub mod OneOutcomeLaws
pub mod Edges
