-- The definitions that the contracts cite.
pub mod Rules
pub mod Reducing
