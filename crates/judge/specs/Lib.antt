-- The definitions that the contracts cite.
pub mod Models
pub mod Elements
pub mod Judgements
pub mod Shown
