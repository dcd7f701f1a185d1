-- The definitions that the contracts cite.
pub mod Parts
pub mod Rows
pub mod Tests
pub mod Comparisons
pub mod Checks
