-- The definitions that the contracts and the theorems cite, in the order of the data's way.
pub mod Variables
pub mod Clauses
pub mod Meaning
pub mod Models
pub mod Texts
