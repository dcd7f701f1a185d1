-- The definitions that the contracts cite, in the order of the data's way.
pub mod Limits
pub mod Questions
pub mod Admissions
pub mod Checks
pub mod Builds
pub mod Masks
