-- The definitions in the order of the data's way: arrangements and rows of any kind of test, then those of a question about sets.
pub mod Lists
pub mod Arrangements
pub mod Patterns
pub mod Searches
pub mod Rules
pub mod Solutions
pub mod FirstModels
pub mod Classes
pub mod Sets
pub mod Renamings
pub mod Reduction
pub mod Answers
pub mod Possible
pub mod Cases
