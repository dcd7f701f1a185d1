-- What the exports leave, and the library's calls that the theorems speak of.
pub mod Boundary
mod OneOutcomeLaws
