-- The definitions that the contracts cite, in the order of the data's way.
pub mod Answers
pub mod Checks
pub mod Bytes
pub mod Reads
pub mod Writes
