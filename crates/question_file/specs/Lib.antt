-- The definitions that the contracts cite, in the order of the data's way.
pub mod Bodies
pub mod Bytes
pub mod Fields
pub mod Reads
pub mod Writes
