-- Values that can't be, checks and answers apart, the laws of writing from the front, and the one by which contracts leave one outcome.
pub mod Never
pub mod CheckLaws
pub mod OverLaws
pub mod PaddedLaws
pub mod WriteLaws
pub mod OneLaw
pub mod OneResultLaws
