-- The laws, from sets of terms to what is found, over any family of tests; then that of tests of sets.
pub mod MembersLaws
pub mod AskedLaws
pub mod PartLaws
pub mod StandingLaws
pub mod TriedLaws
pub mod WholeLaws
pub mod BehindLaws
pub mod SetLaws
