-- The definitions that the contracts cite: the rows of a class, entries and the notes of a walk over them, then the search with reasons, first for numbers to any base.
pub mod Least
pub mod Lowest
pub mod Entries
pub mod Meetings
pub mod Notes
pub mod Reasons
pub mod Blames
pub mod Trials
pub mod Masks
