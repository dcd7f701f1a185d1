-- The definitions that the contracts cite.
pub mod Tags
pub mod Heads
pub mod Frames
pub mod Writes
