-- What the laws speak of.
pub mod Members
pub mod Asked
pub mod Families
pub mod Behind
pub mod Standings
