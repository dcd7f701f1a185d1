-- The definitions that the contracts and the theorems cite, in the order of the data's way.
pub mod Bytes
pub mod Reads
pub mod Meaning
pub mod Judges
