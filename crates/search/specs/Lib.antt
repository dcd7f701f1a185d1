-- The definitions that the contracts cite: first those of the public one, then those of the steps inside.
pub mod Answers
pub mod Renamings
pub mod Entries
pub mod Placings
pub mod Groups
pub mod Memos
pub mod Tasks
pub mod Fittings
