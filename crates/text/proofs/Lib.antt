-- Laws that belong to no one function: what is written reads back, and what was read is what would be written.
-- Writing:
pub mod LaidLaws
pub mod DigitLaws
-- Reading:
pub mod UntilLaws
pub mod NumberLaws
pub mod PieceLaws
-- Both ways:
pub mod DecimalLaws
pub mod LiteralLaws
pub mod WordLaws
-- What the contracts leave:
pub mod OneOutcomeLaws
