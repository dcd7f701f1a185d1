-- The definitions that the contracts cite, in the order of the data's way.
pub mod Statements
pub mod NameTests
pub mod Meaning
pub mod Among
