-- The definitions that contracts and the theorems about them cite.
pub mod Refusals
pub mod Checks
pub mod Writes
pub mod Padded
pub mod Verdicts
pub mod OneResult
pub mod OneOutcome
pub mod Calls
