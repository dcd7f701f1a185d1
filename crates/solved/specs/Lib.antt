-- The definitions that the contracts cite: what the calls answer, and the model as arrays.
pub mod Solved
pub mod Said
