-- The definitions that the contracts cite, in the order of the data's way.
pub mod Clashes
pub mod Starts
pub mod Parts
pub mod Files
