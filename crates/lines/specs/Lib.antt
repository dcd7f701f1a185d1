-- The definitions that the contracts cite, and document 02's sentence.
pub mod Values
pub mod Stages
pub mod Steps
pub mod Reads
pub mod Sentences
