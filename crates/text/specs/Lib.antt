-- The definitions that the contracts cite, and those that say what is written reads back.
pub mod Laid
pub mod Decimals
pub mod Literals
pub mod Pieces
